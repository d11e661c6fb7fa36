pub mod Sets
pub mod Ballots
pub mod Quorums
mod Facts
mod Choice
mod Stores
pub mod Votes
mod Sending
mod Moving
mod Runs
pub mod Backing
mod Showing
pub mod Hearing
mod Saying
mod Dealing
mod Opening
mod Calling
pub mod CommandRuns
pub mod TakenRuns
pub mod CommandRunExamples
mod CarriedRuns
pub mod Examples
pub mod NearMisses
pub mod ActExample
pub mod ArrivalExamples
mod OrderExamples
pub mod BackingExamples
pub mod CallExamples
pub mod Widening

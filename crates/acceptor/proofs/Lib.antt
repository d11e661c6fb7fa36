pub mod Ballots
pub mod Told
pub mod Votes
pub mod Exits
pub mod Stored
pub mod Examples
pub mod RunAnswers
pub mod RunLaws

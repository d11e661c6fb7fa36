mod Examples
mod RunExamples
mod KeptExamples
pub mod Feeds
pub mod KeptPeers
pub mod Runs
pub mod CountedLines
pub mod OneLog
pub mod Counting
pub mod Accounts
pub mod Waiting
pub mod Telling
mod StoreAnswers

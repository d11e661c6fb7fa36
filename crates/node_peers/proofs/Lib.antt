pub mod Adding
pub mod Questions
pub mod Growing
pub mod Speaking
pub mod Fitting
pub mod Sending
pub mod Promises
pub mod Handing
pub mod Keyed
pub mod Meeting
mod Examples
mod AskingExamples
pub mod Lives
pub mod Fading
pub mod Reporting
pub mod Leaving

pub mod Hands
pub mod Allowed
pub mod Away
pub mod Fitting
pub mod Inside
pub mod Begin
pub mod Played
pub mod Examples
mod AwayExamples
pub mod Results
mod Ranges
mod Slotted
pub mod SlotExamples

mod Examples
mod PassageExamples
mod WaitingExamples
mod CallerExamples
mod RoomExamples
pub mod Walks
pub mod Passed

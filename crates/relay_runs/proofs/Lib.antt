pub mod Writing
pub mod Waiting
pub mod Happening
pub mod Lines
pub mod Hearing
pub mod Owning
pub mod Bounds
pub mod Courses
pub mod Newest
pub mod Tellings
pub mod Keeping
mod Examples
pub mod Ending

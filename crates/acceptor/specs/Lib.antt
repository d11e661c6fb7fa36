pub mod Answers
pub mod Taken
pub mod Stored
pub mod Laws

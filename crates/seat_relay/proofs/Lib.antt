pub mod Orders
pub mod Ascending
pub mod Parts
pub mod Saying
pub mod Standing
pub mod Links
pub mod Dealing
pub mod Nearest
pub mod Walks
pub mod Stories
mod Examples

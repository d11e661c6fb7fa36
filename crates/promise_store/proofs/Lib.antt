pub mod Gated
pub mod Stages
pub mod Writes
pub mod Appends
pub mod Journals
pub mod Holding
pub mod Ordered
mod Ranges
pub mod Calls
pub mod Backing
pub mod Greatest
pub mod Entries
pub mod Opening
pub mod Reopening
pub mod Runs
pub mod Indexed
pub mod Storing
pub mod Examples

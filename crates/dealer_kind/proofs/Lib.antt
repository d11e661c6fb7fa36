mod Owning
pub mod Counts
pub mod Fitting
mod Ordering
mod Holding
mod Saying
pub mod Examples

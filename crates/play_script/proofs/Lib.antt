pub mod Numbers
pub mod Pairs
pub mod Ordered
pub mod Examples

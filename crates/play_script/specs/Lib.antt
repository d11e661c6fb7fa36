pub mod Orders
pub mod Shown

pub mod Distinct
pub mod Letters
mod Parts
pub mod Examples

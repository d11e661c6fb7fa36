mod Distinct
mod Drawing
pub mod Examples

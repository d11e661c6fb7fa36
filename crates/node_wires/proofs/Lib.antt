pub mod Walks
pub mod Logged
pub mod Moments
pub mod Choosing
mod Examples
mod PlaceExamples

pub mod Takes
pub mod Streams
pub mod SeatNames
pub mod Telling
pub mod Lines
pub mod Progress
pub mod Lengths
pub mod Logging
pub mod Taking
pub mod Examples
pub mod OneCut
pub mod OneSaying
pub mod OneOutput
mod Bundles

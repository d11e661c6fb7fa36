mod ServingExamples
mod LineExamples
pub mod Scoring
pub mod HandingOn
pub mod ServedTurns
pub mod GoingOn
mod SeatLines
mod Answering
mod Waiting
mod Playing
pub mod Scripting
mod Bundles

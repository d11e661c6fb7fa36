pub mod PastHands
pub mod PastFound
pub mod PastPlay
pub mod PastSeen
pub mod Found
pub mod Following
pub mod Reading
pub mod HoleTexts
pub mod ActionCounts
pub mod Names
pub mod Telling
pub mod Staying
mod Examples

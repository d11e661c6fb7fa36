pub mod Delivered
pub mod Examples
pub mod Marking
pub mod Gaining
pub mod Happening
pub mod OneList

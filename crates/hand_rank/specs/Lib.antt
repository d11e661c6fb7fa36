pub mod Worth
pub mod WorthInside
pub mod Five
pub mod Best
pub mod Ranks
pub mod Profile

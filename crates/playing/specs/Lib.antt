pub mod Showing
pub mod Marks
pub mod MarksInside
pub mod Playing
pub mod PlayingInside

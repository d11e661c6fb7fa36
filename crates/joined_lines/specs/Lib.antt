pub mod Chosen
pub mod Bringing
pub mod Coming
pub mod Processes
pub mod Serving
pub mod Keeping

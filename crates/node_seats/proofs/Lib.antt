pub mod Lists
pub mod Tokens
pub mod Passing
pub mod Others
pub mod Writing
pub mod Guesting
pub mod Keeping
pub mod Seating
pub mod Hurrying
pub mod SeatBits
pub mod Coming
pub mod Crowding
pub mod Asking
pub mod Telling
mod Examples

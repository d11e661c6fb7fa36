pub mod Joined
pub mod Passing
pub mod Places
pub mod Asking
mod Examples

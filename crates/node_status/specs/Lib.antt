pub mod Texts
pub mod Lines
pub mod Given
pub mod Asking

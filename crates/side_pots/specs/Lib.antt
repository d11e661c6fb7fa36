pub mod Pots
pub mod Amounts
pub mod Laws

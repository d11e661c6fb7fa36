pub mod Card
pub mod Deal
pub mod DealInside
pub mod Fault

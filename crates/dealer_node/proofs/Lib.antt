pub mod Cutting
pub mod Applied
pub mod Printed
pub mod Sent
pub mod MemberMade
pub mod Messages
pub mod Telling
pub mod Answered
pub mod Draining
pub mod Seating
pub mod Told
pub mod Placed
pub mod Worked
pub mod Still
pub mod Remembered
pub mod Settled
pub mod Ahead
pub mod Learned
pub mod Proposed
pub mod Started
pub mod Voted
pub mod Left
pub mod Stored
pub mod Ticked
pub mod Framed
pub mod Heard
pub mod Ordered
pub mod Handled
pub mod Within
pub mod Most
mod MostExamples
mod Examples
mod BundledExamples
pub mod AsOne
pub mod Own

mod Carrying
pub mod Results
mod Telling
mod Ordering
mod NextBallots
mod Proposed
mod OwnRuns
mod Sourcing
mod Sent
mod Keeping
mod Paths
mod Steps
mod Together
mod Promising
mod Showing
pub mod Passing
mod Settling
mod Learning
mod Voting
mod Asking
pub mod Asked
mod Closing
mod Settled
mod Ticking
pub mod Beginning
mod Framing
mod Halting
mod Answering
mod Sitting
mod Hearing
mod Noting
mod Starting
mod AtRest
mod Chaining
mod Sounding
mod Agreeing
pub mod Members
mod HeldKnown
mod RunHeard
pub mod KeptVotes
mod CalmPromises
mod Electing
mod Counting
mod Outcomes
mod CalmTurns
mod CalmSteps
mod CalmRound
mod Calming
mod OutbidTurns
pub mod Ways
pub mod WayMembers
mod Fresh
mod Resting
mod Led
mod Prepared
mod Answered
mod Backed
mod Finished
mod Applied
mod Shown
mod Seated
mod Orders
mod Refused
mod Counted
mod Valued
mod HeldRuns
mod Cases
mod Afterwards
mod Fitting
mod EndingSteps
mod Ending
mod Created
pub mod Examples
pub mod TurnExamples
mod OrderExamples
pub mod OutcomeExamples
pub mod CalmExamples
pub mod WayExamples
mod CaseExamples

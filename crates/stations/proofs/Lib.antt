pub mod OwnTables
mod Joining
mod Moving
mod Acting
mod Dying
mod Incarnations
mod Together
mod Tables
mod Walks
mod Examples
mod FrameExamples
mod IncarnationExamples

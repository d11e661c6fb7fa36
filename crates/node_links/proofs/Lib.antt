pub mod Stepping
pub mod LivesLaws
pub mod PlainGoing
pub mod Fronting
pub mod Taking
pub mod CodedGoing
pub mod CodedSaying
pub mod Opening
pub mod Beginning
pub mod Headings
pub mod Handing
pub mod CodedSpeaking
pub mod PlainSpeaking
mod HistoryLaws
mod HearingLaws
mod DialLaws
mod Examples
mod CodedExamples
mod SpeakingExamples

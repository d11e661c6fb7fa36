pub mod Told
pub mod Campaigns
pub mod ProposerInside
pub mod Counted
pub mod Laws
pub mod CommandRuns
pub mod CommandRunLaws

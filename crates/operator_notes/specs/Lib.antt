pub mod Causes
pub mod Shown
pub mod LogNames
pub mod NodeFiles
pub mod BesideStore
pub mod KeyFaults
pub mod Notes
pub mod NodeNotes

pub mod Past
pub mod Cursors
pub mod Naming
pub mod Laws
pub mod Telling

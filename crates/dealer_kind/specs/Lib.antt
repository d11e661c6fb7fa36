pub mod Kind
pub mod Owning
pub mod Sources
pub mod Plans
pub mod ConfigInside
pub mod Laws

pub mod Items
pub mod Slots
pub mod Pass
pub mod Laws

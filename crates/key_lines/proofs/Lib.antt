pub mod Short
pub mod Laws
pub mod Stream
pub mod Trip

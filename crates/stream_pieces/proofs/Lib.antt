pub mod Laws
pub mod Stream

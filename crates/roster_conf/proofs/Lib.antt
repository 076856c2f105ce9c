pub mod Laws
pub mod Grounds
pub mod Rosters

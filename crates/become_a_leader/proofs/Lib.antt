pub mod Open
pub mod Lists
pub mod Laws
pub mod Whole
pub mod Machine

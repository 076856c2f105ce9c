pub mod Bars
pub mod Refusals
pub mod Machine
pub mod Call

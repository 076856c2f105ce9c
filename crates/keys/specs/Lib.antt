pub mod Read
pub mod Same

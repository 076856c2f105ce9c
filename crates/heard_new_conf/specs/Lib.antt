pub mod Does
pub mod Forgets

pub mod Sum
pub mod Numbers

pub mod Conf
pub mod Ground
pub mod Edit
pub mod Edits
pub mod Asks
pub mod EditList

pub mod Turn
pub mod TurnList

pub mod Pieces
pub mod Streamed

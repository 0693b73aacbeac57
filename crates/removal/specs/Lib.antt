pub mod Closed
pub mod InTurn

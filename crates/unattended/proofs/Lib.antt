pub mod Walking
pub mod Moves
pub mod Together
pub mod Start
pub mod Calling

pub mod Moves
pub mod Bounds
pub mod Looking
pub mod Make

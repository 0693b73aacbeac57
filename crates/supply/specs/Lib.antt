pub mod Taken
pub mod Atoms
pub mod Unpicked
pub mod Balance
pub mod Reacts
pub mod Freed

pub mod Atoms
pub mod Runs

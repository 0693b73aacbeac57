pub mod Runs
pub mod Fold
pub mod Tallies
pub mod Lines
pub mod Whole

pub mod Branches
pub mod Level
pub mod Words
pub mod Passed

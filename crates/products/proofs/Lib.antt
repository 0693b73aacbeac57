pub mod Merging
pub mod Appending
pub mod Reacted

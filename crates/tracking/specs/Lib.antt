pub mod Tracked
pub mod Given
pub mod Reacted
pub mod Ended

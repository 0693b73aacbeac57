pub mod Stopped
pub mod Last
pub mod Reacted
pub mod Ended

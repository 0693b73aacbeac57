pub mod Marking
pub mod Copying
pub mod MarksKept
pub mod Tracking
pub mod Acting
pub mod Recording

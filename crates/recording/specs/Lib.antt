pub mod Marks
pub mod Recordings

pub mod Answers
pub mod Results
pub mod Listing
pub mod Running
pub mod Moving
pub mod Previewing
pub mod Serializing

pub mod Results
pub mod Lists
pub mod Logs
pub mod Moves

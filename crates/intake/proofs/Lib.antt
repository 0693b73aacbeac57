pub mod Ends
pub mod Verdicts
pub mod Wordwise

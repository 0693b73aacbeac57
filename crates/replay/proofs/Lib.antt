pub mod Places
pub mod Used
pub mod WordsAgain
pub mod Replaying
pub mod Turns

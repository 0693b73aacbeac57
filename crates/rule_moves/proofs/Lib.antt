pub mod PlainCount
pub mod Reactions

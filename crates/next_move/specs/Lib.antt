pub mod Reactions

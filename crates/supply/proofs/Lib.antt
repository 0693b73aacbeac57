pub mod Totals
pub mod Reaction
pub mod Freeing

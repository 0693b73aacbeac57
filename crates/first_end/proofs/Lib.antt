pub mod Commits
pub mod FirstIds
pub mod FirstEnds

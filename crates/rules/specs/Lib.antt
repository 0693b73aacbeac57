pub mod Decode
pub mod RuleWords

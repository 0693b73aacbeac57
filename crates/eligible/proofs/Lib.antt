pub mod PortTally
pub mod KeyCases

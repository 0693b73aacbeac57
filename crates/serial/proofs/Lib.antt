pub mod FirstPass
pub mod SecondPass

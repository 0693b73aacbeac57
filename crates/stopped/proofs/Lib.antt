pub mod LastEntry

pub mod Offers
pub mod ColumnKeys

pub mod Amounts
pub mod NumberLaws
pub mod Unique

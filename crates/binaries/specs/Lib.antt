-- what the calls promise
pub mod Percentages
pub mod Times
pub mod Positions
pub mod Margins
pub mod Calls
pub mod Examples
-- what is demanded
pub mod Demands

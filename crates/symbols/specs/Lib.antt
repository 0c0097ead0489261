-- characters, roots and lines
pub mod Digits
pub mod Roots
pub mod Lines
-- what the calls answer
pub mod Calls
-- what is demanded
pub mod Demands
-- for functions that are not public
pub mod Steps

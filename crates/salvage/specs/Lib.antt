-- pieces, which of them are kept, and the file of those
pub mod Pieces
pub mod Kept
-- what the call answers
pub mod Calls
-- what is demanded
pub mod Demands
-- for functions that are not public
pub mod Steps

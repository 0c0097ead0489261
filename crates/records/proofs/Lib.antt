-- laws that every crate above cites, each file by what it speaks of
-- lists, sums and parts
pub mod ListLaws
pub mod Measures
pub mod ChunkLaws
pub mod JoinLaws
pub mod PutLaws
pub mod Cuts
pub mod LowestLaws
-- numbers and records as bytes
pub mod ByteLaws
pub mod WordLaws
pub mod NumberLaws
pub mod SameLaws
pub mod LineLaws
pub mod LegLaws
pub mod RecordLaws
pub mod ClaimLaws
-- refusals in their order, and tables
pub mod OrderLaws
pub mod PassLaws
pub mod TableLaws
-- one outcome
pub mod OutcomeLaws
-- the crate's own
mod DateLaws
mod Unique
pub mod ErrorLaws

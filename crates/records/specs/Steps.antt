-- What the steps of this crate's functions compute, for the contracts of functions that are not public, and for the invariants of
-- loops: nothing here has to be believed by one who reads the promises.
pub mod Rest

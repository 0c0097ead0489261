-- What the steps of the calls rely on, for the contracts of functions that are not public: no reader has to believe it.
pub mod Pieces
pub mod Files
pub mod Groups

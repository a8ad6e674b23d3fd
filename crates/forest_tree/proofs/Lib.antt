pub mod HeldSets
pub mod ListedSets
pub mod Beside
pub mod NewDeltas
pub mod RowNames

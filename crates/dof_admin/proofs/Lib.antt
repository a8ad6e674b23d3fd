pub mod HoleLists
pub mod HoleHeaps
pub mod Renumbering

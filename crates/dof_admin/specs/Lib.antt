pub mod Administration
pub mod Holes

pub mod Apart
pub mod Grown
pub mod Marked
pub mod Refinement
pub mod Plans
pub mod Forests

pub mod Wiser
pub mod Works
pub mod Looks
pub mod Tops
pub mod Finished
pub mod Reached
pub mod Pinned

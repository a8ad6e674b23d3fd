pub mod Centres
pub mod Mended
pub mod Refusals
pub mod Promises

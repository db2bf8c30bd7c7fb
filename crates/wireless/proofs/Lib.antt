pub mod Asks
pub mod Parts
pub mod RadioIs

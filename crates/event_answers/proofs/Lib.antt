pub mod Meets
pub mod Broken
pub mod Readies
pub mod Delivers

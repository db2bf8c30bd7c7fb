pub mod Split
pub mod Pass
pub mod Broken

pub mod Lengths
pub mod Split

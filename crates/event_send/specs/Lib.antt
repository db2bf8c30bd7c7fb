pub mod Checks
pub mod Posted

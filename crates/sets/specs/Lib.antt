pub mod Masks
pub mod Walks

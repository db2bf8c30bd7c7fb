pub mod Kept
pub mod Laws
pub mod Stands
pub mod Values

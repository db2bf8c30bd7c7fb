pub mod Texts
pub mod Layout
pub mod Moved

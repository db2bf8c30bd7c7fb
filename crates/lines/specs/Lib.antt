-- The lines between stations, in one pool of words.
pub mod Bits
pub mod Words
pub mod Lines
pub mod Form
pub mod Post
pub mod Parts
pub mod Holding

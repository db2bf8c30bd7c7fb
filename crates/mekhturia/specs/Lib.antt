pub mod Status
pub mod Frames

pub mod Turns
pub mod EveryView

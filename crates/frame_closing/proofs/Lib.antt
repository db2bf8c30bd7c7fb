pub mod Lines
pub mod Closings
pub mod Rules

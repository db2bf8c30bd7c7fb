pub mod Piece
pub mod Stops
pub mod CanRun
pub mod Dispatched
pub mod Went

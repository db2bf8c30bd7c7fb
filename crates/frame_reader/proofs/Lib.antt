pub mod Pieces
pub mod Stream

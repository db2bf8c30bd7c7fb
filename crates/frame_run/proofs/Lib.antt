pub mod Pieces
pub mod Events
pub mod Turns
pub mod Loop
pub mod Whole
pub mod Printed
pub mod Frames

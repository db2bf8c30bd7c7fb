pub mod Rooms
pub mod Copies
pub mod Begun
pub mod Sent

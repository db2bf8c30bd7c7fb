pub mod Rooms
pub mod Keys
pub mod Places

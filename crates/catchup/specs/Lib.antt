pub mod Nearest
pub mod Arrival
pub mod Naming

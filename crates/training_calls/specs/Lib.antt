pub mod Calls
pub mod Gone

pub mod Moved
pub mod Flagged
pub mod Retired
pub mod Forwarded
pub mod Left
pub mod Struck
pub mod Arrived

pub mod Checks
pub mod RadioMeets
pub mod Delivery

pub mod GroupChecks
pub mod GroupMeets

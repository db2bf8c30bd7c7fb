pub mod SetChecks
pub mod SendChecks
pub mod SendMeets

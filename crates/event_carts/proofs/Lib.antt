pub mod MoveChecks
pub mod MoveMeets
pub mod EnterChecks
pub mod EnterMeets
pub mod FlagChecks
pub mod FlagMeets
pub mod RetireChecks
pub mod RetireMeets

pub mod Entered
pub mod Groups

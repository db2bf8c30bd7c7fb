pub mod CallRuns
pub mod Bench
pub mod Turns
pub mod Loop
pub mod Fresh

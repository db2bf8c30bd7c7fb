pub mod Bench
pub mod Memory
pub mod Feeds

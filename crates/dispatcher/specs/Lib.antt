pub mod Busy
pub mod Queues
pub mod Choice
pub mod Taken
pub mod Seen
pub mod Quieted
pub mod Called

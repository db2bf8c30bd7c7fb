pub mod Fresh
pub mod Stream
pub mod Rules
pub mod Feeds
pub mod Loop

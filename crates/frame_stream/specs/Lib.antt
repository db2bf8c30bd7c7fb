pub mod Stream
pub mod Feed

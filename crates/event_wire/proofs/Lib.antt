pub mod WireChecks
pub mod HeadTaken
pub mod WireMeets

pub mod Steps
pub mod Codes
pub mod HeadLaws
pub mod KeyLaws
pub mod PlaceLaws
pub mod AckLaws

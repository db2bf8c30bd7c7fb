pub mod Search
pub mod PartLaws

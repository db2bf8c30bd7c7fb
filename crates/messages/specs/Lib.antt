pub mod View
pub mod Texts

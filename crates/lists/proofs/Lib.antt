pub mod CountLaws
pub mod Facts
pub mod Checks
pub mod SendLaws
pub mod TakeLaws
pub mod StartLaws
pub mod Readies

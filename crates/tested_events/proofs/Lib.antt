pub mod Parts
pub mod Long
pub mod Run

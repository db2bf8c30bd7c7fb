-- The laws that the functions' proofs cite.
pub mod Digits
pub mod Sums
pub mod Bitmap
pub mod Chains
pub mod Formed
pub mod Change
pub mod Registers
pub mod Push
pub mod Holding
pub mod Pop
pub mod Start
pub mod Test
pub mod Examples
pub mod Visit

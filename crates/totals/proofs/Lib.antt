pub mod Gcd
pub mod Joins
pub mod Sums
pub mod Ratios
pub mod Theorems

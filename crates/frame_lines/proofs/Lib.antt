pub mod Octets
pub mod Numbers
pub mod Fields

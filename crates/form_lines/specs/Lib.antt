pub mod Said
pub mod Pass
pub mod LinesRule
pub mod Ways

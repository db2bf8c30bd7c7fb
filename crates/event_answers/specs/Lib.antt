pub mod Answers
pub mod Met
pub mod Delivered

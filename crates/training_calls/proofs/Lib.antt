pub mod CallLaws
pub mod Turns
pub mod Loop

pub mod BusyLaws
pub mod QueueLaws
pub mod Choices
pub mod StepLaws
pub mod Going
pub mod CalledLaws

pub mod Statuses
pub mod FrameStatuses

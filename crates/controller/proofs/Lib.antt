pub mod Run
pub mod StoreRoom
pub mod Values

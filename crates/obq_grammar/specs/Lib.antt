pub mod Follow
pub mod Fails
pub mod Parts
pub mod Bounds

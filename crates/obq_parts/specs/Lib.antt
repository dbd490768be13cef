pub mod Blocks
pub mod Closed
pub mod Objects
pub mod Openings
pub mod Reads
pub mod Targets

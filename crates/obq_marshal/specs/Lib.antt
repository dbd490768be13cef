pub mod Groups
pub mod Packing
pub mod Meaning
pub mod Sendable

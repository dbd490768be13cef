pub mod Reads
pub mod Watches

pub mod Mutex
pub mod Reads

pub mod Narrow
pub mod Few

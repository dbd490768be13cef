pub mod Scans
pub mod Lexes

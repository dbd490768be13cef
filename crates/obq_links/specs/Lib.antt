pub mod Places
pub mod Rows
pub mod Sited
pub mod Tables

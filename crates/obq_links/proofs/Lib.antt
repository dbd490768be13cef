mod FirstSites
pub mod Kept
pub mod Linked
mod Tallied
mod Trailing

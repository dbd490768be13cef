pub mod Contents
pub mod Gathering
pub mod Refusals

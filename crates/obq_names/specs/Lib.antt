pub mod Captures
pub mod Indexed
pub mod PlaceAt
pub mod Union
pub mod Walked

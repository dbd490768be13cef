pub mod Less
pub mod Longer
pub mod Placed
pub mod PlaceUpdates
pub mod Unions
pub mod LastPlaces
pub mod Walks

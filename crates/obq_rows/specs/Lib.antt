pub mod Sources
pub mod Schedule
pub mod SmallWorld

pub mod Ends
pub mod Held
pub mod Linked
pub mod Played
pub mod Runs
pub mod Stops

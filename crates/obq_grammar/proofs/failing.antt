-- Where each production of the grammar fails.
pub mod Sequences
pub mod Beginnings
pub mod Bindings
pub mod Fields
pub mod Primaries
pub mod Blocks
pub mod Lets
pub mod Suffixes
pub mod Objects
pub mod Stops
pub mod Levels
pub mod Targets
pub mod Items
pub mod Programs
pub mod Leaves

pub mod Same
pub mod Tree
pub mod View
pub mod formers

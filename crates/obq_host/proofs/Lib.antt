pub mod AsMachine
pub mod Begun
pub mod Behind
pub mod Due
pub mod Ended
pub mod Finished
pub mod Forked
pub mod Forms
pub mod Imported
pub mod Meant
pub mod Named
pub mod OwnCells
mod Placing
mod Refocused
pub mod Standing
pub mod Told
pub mod Tried
mod Trying

pub mod Pieces
pub mod Moved
pub mod Windows
pub mod Turns
pub mod Merged
pub mod Sharing

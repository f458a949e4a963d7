mod Examples
pub mod Moves
pub mod Frames
pub mod Laying
pub mod Shared
pub mod Cuts

mod Examples
pub mod BitLemmas
pub mod Cells
pub mod Cleaning
pub mod Lanes
pub mod Marking
pub mod Numbers
pub mod Places
pub mod Refusals
pub mod Starts
pub mod Steadiness
pub mod Tiles
pub mod Unlike
pub mod Verdicts

-- Definitions that only private functions and the keeping of a type cite.
pub mod TileLines
pub mod ImplyLines
pub mod Majorities
pub mod Packing
pub mod Kept

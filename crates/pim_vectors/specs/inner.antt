-- Definitions that only private functions and the keeping of a type cite.
pub mod Found
pub mod Taken
pub mod Cells
pub mod Kept
pub mod NextLine

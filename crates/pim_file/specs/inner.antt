-- Definitions that only private functions and the keeping of a type cite.
pub mod Kept
pub mod BinaryKept

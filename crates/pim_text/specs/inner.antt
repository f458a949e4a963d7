-- Definitions that only private functions and the keeping of a type cite.
pub mod FieldWalks
pub mod Kept

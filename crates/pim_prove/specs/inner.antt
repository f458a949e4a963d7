-- Definitions that only private functions and the keeping of a type cite.
pub mod Comparing
pub mod Marks

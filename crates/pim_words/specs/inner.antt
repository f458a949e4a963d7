-- Definitions that only private functions cite.
pub mod Options
pub mod Matches
pub mod Answer

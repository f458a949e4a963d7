-- Definitions that only private functions cite.
pub mod Rules
pub mod Columns
pub mod Parts

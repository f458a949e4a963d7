-- Definitions that only private functions and the keeping of a type cite.
pub mod Bytes
pub mod Defined
pub mod Pairs
pub mod Stages
pub mod StatementViews

-- Inner: definitions that only private functions and the keeping of a type cite.
pub mod Bodies
pub mod Refusals
pub mod Schedules

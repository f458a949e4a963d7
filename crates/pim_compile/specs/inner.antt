-- Inner: definitions that private functions cite, and no public contract.
pub mod Candidates
pub mod Fits
pub mod Scheduled
pub mod Smart

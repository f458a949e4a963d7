-- Inner: definitions that private functions cite, and no public contract.
pub mod Kept
pub mod Slots
pub mod Runs

-- Inner: definitions that private functions cite, and no public contract.
pub mod Steps
pub mod Tables

-- Inner: definitions that private functions and representations cite, and no public contract.
pub mod Marks
pub mod Nodes
pub mod Pools

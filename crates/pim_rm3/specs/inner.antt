-- Inner: definitions that private functions cite, and no public contract.
pub mod Reading
pub mod Operands
pub mod Settled

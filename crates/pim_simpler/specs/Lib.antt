pub mod Following
pub mod Batching
pub mod Needs
pub mod inner

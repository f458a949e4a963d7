pub mod inner
pub mod Choices
pub mod Computes
pub mod Cycles
pub mod Networks
pub mod Refusals
pub mod Targets

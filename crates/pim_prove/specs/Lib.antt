pub mod Clean
pub mod Steady
pub mod Vectors
pub mod Proving
pub mod inner

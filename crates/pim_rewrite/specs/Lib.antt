pub mod inner
pub mod Cases
pub mod Normal
pub mod Passes
pub mod Rewritten

pub mod Faultless
pub mod Sessions
pub mod Standing
pub mod NotWhole
pub mod Writing

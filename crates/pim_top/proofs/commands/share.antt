pub mod Fine
pub mod Turns

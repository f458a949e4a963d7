pub mod Adders
pub mod Drawn

mod Examples
pub mod Rows
pub mod Tiles
pub mod Lent
pub mod Digits
pub mod Bounds
pub mod Adders
pub mod Summed

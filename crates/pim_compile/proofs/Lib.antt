pub mod Best
pub mod Composed
pub mod Fits
pub mod Realized
pub mod Sparing
mod Examples

-- Inner: what only private functions of this crate cite. No contract that other crates see rests on it.
pub mod DepthFirst
pub mod Drivers
pub mod Judged
pub mod ListsViews
pub mod Stores

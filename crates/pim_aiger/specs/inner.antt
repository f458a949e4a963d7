-- Inner: what only private functions of this crate cite. No contract that other crates see rests on it.
pub mod Kept
pub mod Views

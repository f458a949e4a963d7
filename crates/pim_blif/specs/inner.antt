-- Inner: what only private functions of this crate cite. No contract that other crates see rests on it.
pub mod Found
pub mod InputMarks
pub mod Judging
pub mod Readers
pub mod Reading

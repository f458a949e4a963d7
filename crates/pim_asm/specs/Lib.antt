pub mod Words
pub mod Labels
pub mod Names
pub mod Statements
pub mod Assembly
pub mod Listing
pub mod inner

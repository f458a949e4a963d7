pub mod inner
pub mod Tidied
pub mod Tidy

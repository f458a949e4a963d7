pub mod Examples
pub mod FirstLine
pub mod Many
pub mod Symbols

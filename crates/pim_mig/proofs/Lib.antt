mod Examples
pub mod Values
pub mod Keys
pub mod Answers
pub mod Steps

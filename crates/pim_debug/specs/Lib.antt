pub mod Commands
pub mod States
pub mod Answers
pub mod inner

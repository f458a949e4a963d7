pub mod Trials
pub mod Summaries
pub mod inner

mod Examples
pub mod Finished
pub mod FitLemmas
pub mod GateReads
pub mod Literals
pub mod Netlists
pub mod Orders
mod ReadExamples
pub mod Rows
pub mod TextLaws
pub mod TextLemmas
pub mod Walks

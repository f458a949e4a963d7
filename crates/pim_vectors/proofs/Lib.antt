pub mod Taking
pub mod NextLemmas
pub mod AfterLemmas
pub mod BitLemmas
pub mod StageLemmas
pub mod TileLemmas
mod Examples

pub mod RowLemmas
pub mod PackingLemmas
pub mod BatchLemmas
mod Examples
pub mod MajorityLemmas
pub mod PassLemmas
pub mod LineCounts

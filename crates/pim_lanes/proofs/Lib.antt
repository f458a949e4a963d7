pub mod BitLemmas
pub mod RuleLemmas
pub mod ColumnLemmas
pub mod StepLemmas
pub mod BankLemmas
pub mod LendLemmas
pub mod TripleLemmas
pub mod PartLends
mod Examples

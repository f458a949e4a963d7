pub mod NoteLemmas
pub mod RowLemmas
pub mod SoundLemmas
pub mod PrimedLemmas
pub mod LoadLemmas
pub mod StepLemmas
pub mod WriteLemmas
mod Examples

mod AsmExamples
mod Examples
pub mod BodyLemmas
pub mod LabelLemmas
pub mod NameLemmas
pub mod PartLemmas
pub mod ReadBack
pub mod WordLemmas

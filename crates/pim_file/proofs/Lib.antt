mod Examples
mod BinaryExamples
pub mod CodeLemmas
pub mod ItemLemmas
pub mod ManyLemmas
pub mod BinaryLemmas
pub mod KeptLemmas
pub mod FormLaws
pub mod CutLemmas
pub mod Laws
pub mod OptionLemmas
mod ReadExamples
pub mod RightLemmas

mod Examples
pub mod FieldLemmas
pub mod InstrLemmas
pub mod LabelLemmas
pub mod LackLemmas
pub mod LimitLemmas
pub mod LineLemmas
pub mod NumberLemmas
pub mod OptionLemmas
pub mod ProgramLemmas
pub mod ReadBack
pub mod SmallTexts
pub mod WholeText
pub mod WordLemmas

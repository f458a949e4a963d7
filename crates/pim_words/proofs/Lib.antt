mod Examples
pub mod NamesWalk
pub mod NamesFaults
pub mod Alike
pub mod OptionRules
pub mod Answered
pub mod Numbers
pub mod CompileLine
pub mod NumberLines
pub mod ChoiceLines
pub mod Named
pub mod PlainWords

pub mod CodeLemmas
mod Examples
pub mod Labels
pub mod LineCuts
pub mod Wholes
pub mod WordCuts

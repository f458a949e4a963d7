pub mod FlatCounts
pub mod ChainValues
pub mod CoverValues
pub mod EquationValues
pub mod FlatValues
pub mod Linking
pub mod NodeValues
pub mod Rows
pub mod SignalValues
pub mod TableSteps
mod Examples

pub mod AndLists
pub mod Bounds
mod Examples
pub mod Counts
pub mod Finished
pub mod Fitting
pub mod GateKinds
pub mod GateOrders
pub mod Rows
pub mod Lists
pub mod Walks
pub mod Stepping
pub mod RoleLaws
pub mod StepLaws
pub mod TakenCells
pub mod FullKids
pub mod FullOrders
pub mod FullSound
pub mod FullPeaks
pub mod FullValues
pub mod FullComputes
pub mod FullPrograms
mod SmartExamples

mod Examples
pub mod JudgedLines
pub mod NextLine
pub mod LineStates
pub mod WalkStates
pub mod WalkSteps
pub mod Told
pub mod ProgramFiles
pub mod ComparedNets
pub mod StatusKinds
pub mod Wholes
pub mod RowsEnds
pub mod RowsFine
pub mod Clauses
pub mod SpacedLabels

pub mod Allotting
mod Examples
mod TreeExamples
pub mod LowerBound
pub mod Marking
pub mod Orderings
pub mod Peaking
pub mod Placing
pub mod Pooling
pub mod ReadLemmas
pub mod Reaching
pub mod StableSorts
pub mod Stacks
pub mod TreeLaws
pub mod TreeShapes
pub mod Fallings
pub mod Sweeps
pub mod Unders
pub mod UsageSteps
pub mod Visits
pub mod Walks
pub mod Wholes

pub mod Buckets
pub mod ByDrivers
pub mod DepthLemmas
pub mod Equations
pub mod Exact
pub mod Marking
pub mod Repeats
pub mod Rounds
pub mod Rows
pub mod SignalsRead
pub mod Tables
pub mod Trails
pub mod ValueLaws
pub mod Wiring
mod Examples

pub mod inner
pub mod Allotments
pub mod Graphs
pub mod Orders
pub mod Peaks
pub mod Readers
pub mod Trees
pub mod Usages

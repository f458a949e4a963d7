pub mod inner
pub mod Graph
pub mod Laws
pub mod Majs
pub mod Needs
pub mod Nodes
pub mod Values

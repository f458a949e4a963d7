pub mod Lives
pub mod Explanations
pub mod NorGraphs
pub mod TreeLines
pub mod inner

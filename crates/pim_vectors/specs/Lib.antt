pub mod Lines
pub mod Next
pub mod Tiles
pub mod Stages
pub mod Lending
pub mod TileLending
pub mod inner

pub mod Runners
pub mod Tables
pub mod Batches
pub mod ImplyTables
pub mod ImplyBatches
pub mod inner

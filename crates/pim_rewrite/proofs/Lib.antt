mod Examples
pub mod Frame
pub mod Values
pub mod Views
pub mod Counting
pub mod Closing
pub mod NoMore
pub mod Upright
pub mod Gone
pub mod Spreading
pub mod Loops
pub mod Ranks
pub mod Copied
pub mod Settled
pub mod Rounds

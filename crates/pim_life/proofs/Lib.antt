mod Examples
pub mod Drawings
pub mod Ends
pub mod Followed
pub mod Joined
pub mod LastGates

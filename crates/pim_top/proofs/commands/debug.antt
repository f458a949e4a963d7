pub mod Ends
pub mod Fine
pub mod Late
pub mod Lines
pub mod Told

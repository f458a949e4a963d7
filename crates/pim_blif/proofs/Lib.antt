mod Examples
mod FileExamples
pub mod Behind
pub mod CoverTexts
pub mod Faulty
pub mod Found
pub mod Growing
pub mod Joins
pub mod Knowing
pub mod Marks
pub mod Numbers
pub mod Places
pub mod Readings
pub mod Rooms
pub mod Whole

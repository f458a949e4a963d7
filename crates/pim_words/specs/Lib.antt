pub mod Lines
pub mod Program
pub mod Reading
pub mod Plain
pub mod Refusal
pub mod inner

pub mod Bytes
pub mod Lines
pub mod Quotes
pub mod Answers
pub mod Constants
pub mod Packed
pub mod Examples

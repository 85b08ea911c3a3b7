pub mod Item
pub mod Reader
pub mod Read
pub mod Scan
pub mod Next
pub mod Answers
pub mod Parts
pub mod Render

pub mod Basics
pub mod Cases
pub mod Clearing
pub mod Table

pub mod Faults
pub mod Written
pub mod Line
pub mod Quoted
pub mod Parts
pub mod Answers
pub mod Packed

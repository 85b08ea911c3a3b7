pub mod Kinds
pub mod Answers
pub mod Spellings
pub mod Parts
pub mod Read

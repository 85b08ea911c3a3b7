pub mod Encoding
pub mod Reads
pub mod Between
pub mod Read

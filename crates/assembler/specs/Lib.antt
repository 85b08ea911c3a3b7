pub mod Words
pub mod Layout
pub mod Assemble
pub mod Passes

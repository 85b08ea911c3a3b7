pub mod Generate
pub mod Faithful
pub mod Placed

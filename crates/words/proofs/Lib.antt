pub mod Laws
pub mod Division
pub mod Examples

pub mod Gaps
pub mod Decimals
pub mod Sound
pub mod Scans
pub mod Examples
pub mod Rendered
pub mod Answers
pub mod Elements

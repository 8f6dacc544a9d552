pub mod Over
pub mod Bounds
pub mod Claims

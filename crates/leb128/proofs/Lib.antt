pub mod Steps
pub mod Laws
pub mod Joins
pub mod Splits
pub mod Parts
pub mod Claims

pub mod Fields
pub mod Refusals
pub mod Claims

pub mod Lowest
pub mod Ranges
pub mod Merged
pub mod Verdicts
pub mod Claims

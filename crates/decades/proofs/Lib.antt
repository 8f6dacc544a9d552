pub mod Year
pub mod Count
pub mod Rows
pub mod Answers
pub mod Claims

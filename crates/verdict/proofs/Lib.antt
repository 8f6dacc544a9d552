pub mod First
pub mod Claims

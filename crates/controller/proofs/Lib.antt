pub mod Sheets
pub mod Roles
pub mod Plans
pub mod Demands
pub mod Refusing
pub mod Banks
pub mod Claims

pub mod Bits
pub mod Readings
pub mod Claims

-- Laws of a store past the end, and of stores done up to a count.
pub mod Stores

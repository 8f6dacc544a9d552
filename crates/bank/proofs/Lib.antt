-- Laws of a bank of blocks.
pub mod Parts
pub mod Judges
pub mod Uses
pub mod Places
pub mod Replies
pub mod Progressing
pub mod Accepted
pub mod Reading
pub mod Claims

-- Document 02, T-10, as definitions that the contracts cite; then what is proved.
pub mod Blocks
pub mod Judging
pub mod Banks
pub mod Carried
pub mod Cases
pub mod Claims

-- Document 02, T-07, as definitions that the contracts cite; then the cases, and what is proved.
pub mod Contents
pub mod Depletion
pub mod Cases
pub mod Claims

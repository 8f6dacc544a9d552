-- Document 01, 'The season sheet', first paragraph: numbers in groups of seven bits; then edges, and what is proved.
pub mod Groups
pub mod Forms
pub mod Cases
pub mod Claims

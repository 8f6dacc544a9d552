-- Document 01, 'Decade table', as definitions that the contracts cite; then the cases, and what is proved.
pub mod Table
pub mod OpenRow
pub mod Cases
pub mod Claims

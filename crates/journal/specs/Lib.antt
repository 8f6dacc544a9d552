-- Document 01, 'The journal' and 'The book', as definitions that the contracts cite; then edges, and what is proved.
pub mod Entries
pub mod Opening
pub mod Specified
pub mod Calls
pub mod Loss
pub mod Roles
pub mod Book
pub mod History
pub mod Sums
pub mod Cases
pub mod Carried
pub mod Claims

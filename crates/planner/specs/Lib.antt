-- Document 01, 'The plan', and document 02's blocks on one pump, as definitions that the contracts cite; then what is proved.
pub mod Choices
pub mod Plan
pub mod Outlook
pub mod Carried
pub mod Answer
pub mod Bank
pub mod Claims

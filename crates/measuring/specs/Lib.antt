-- Document 02, T-07, beside the journal, as definitions that the contracts cite.
pub mod Probing

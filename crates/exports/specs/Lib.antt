-- What the exported calls write: an answer's numbers, over the first numbers of the caller's array; a probe by its kind; that places and counts fit
-- there; what is proved.
pub mod Written
pub mod Kinds
pub mod Small
pub mod Claims

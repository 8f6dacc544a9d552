-- The calls on bytes; the same by a role, which the contracts cite; why they refuse; demand 3; the calls on one sheet; the cases marked †; and what is proved.
pub mod Calls
pub mod Roles
pub mod Refusals
pub mod Demands
pub mod OneSheet
pub mod Cases
pub mod Claims

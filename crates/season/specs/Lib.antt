-- What document 01 says of a season, as definitions that the contracts cite; then the small sheet, and what is proved.
pub mod Calendar
pub mod Sheet
pub mod Rules
pub mod Day
pub mod Closing
pub mod Loss
pub mod Depths
pub mod Carried
pub mod SmallSheet
pub mod Claims

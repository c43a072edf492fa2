-- The laws of the session that a file describes: with `well_formed` and `within`, every theorem of the model holds of it.
pub mod Counts
pub mod Rows
pub mod Starting
pub mod Sessions
pub mod Lookup
pub mod Claims
pub mod Checking
pub mod Shown
pub mod Worthless

-- What follows from the definitions.
pub mod Places
pub mod Numbering
pub mod Growing

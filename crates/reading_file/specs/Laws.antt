-- The laws of what was read, each proved once from the definition.
pub mod Map
pub mod Bad
pub mod Places
pub mod Fields
pub mod Valid
pub mod Refusals
pub mod Causes
pub mod Reading

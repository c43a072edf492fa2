-- The laws of the pool that was read, each proved once from the definition.
pub mod Ranges
pub mod Pool
pub mod Places
pub mod Arcs
pub mod Listed

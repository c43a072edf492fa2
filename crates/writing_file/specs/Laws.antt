-- The laws of writing, each proved once from the definitions.
pub mod Writing
pub mod Restored
pub mod Promises
pub mod Services

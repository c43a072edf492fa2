-- The laws of flat tables, each proved once from the definitions.
pub mod Put
pub mod Parts
pub mod Taken
pub mod Products
pub mod Writing

-- The laws of the model that was read, each proved once from the definition.
pub mod Ranges
pub mod Machines
pub mod Words
pub mod Queues
pub mod Starting
pub mod Transitions
pub mod Places
pub mod Model

-- The laws of membership, each proved once from the definition.
pub mod Queues
pub mod Judging
pub mod Asking
pub mod Order
pub mod Meaning
pub mod Refused

-- Laws of the tables.
pub mod Queues
pub mod Pool
pub mod Kinds
pub mod Lookup
pub mod Each
pub mod Starting

-- The tables in the model's words.
pub mod Queues
pub mod Arcs

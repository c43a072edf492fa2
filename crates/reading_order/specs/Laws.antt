-- What the test of queue order means, and what the proofs of its code rest on.
pub mod Paths
pub mod Reached
pub mod Ranks
pub mod Words
pub mod Finding
pub mod Testing
pub mod Order
pub mod Arcs

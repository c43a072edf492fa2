-- What the proofs of parsing rest on.
pub mod Machine
pub mod Factors
pub mod Cycle
pub mod Groups

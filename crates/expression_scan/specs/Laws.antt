-- What the proofs of scanning rest on.
pub mod Runs
pub mod Values
pub mod Limits

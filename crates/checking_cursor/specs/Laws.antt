-- What the proofs of the cursor rest on, and what its users do.
pub mod Left
pub mod Standing
pub mod Seeking

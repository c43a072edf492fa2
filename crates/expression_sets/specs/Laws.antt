-- What the proofs of the loops rest on.
pub mod Linking
pub mod Gathering

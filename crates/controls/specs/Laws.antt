-- What the proofs of control states rest on.
pub mod Parting
pub mod Begin

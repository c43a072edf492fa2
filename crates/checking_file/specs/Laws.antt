-- What the proofs of checking rest on.
pub mod Check
pub mod Shows
pub mod Reply

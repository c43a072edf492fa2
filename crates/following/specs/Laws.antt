-- What the proofs of following rest on.
pub mod Follow
pub mod Far
pub mod Rows
pub mod Words
pub mod Standing
pub mod Part
pub mod Front
pub mod After
pub mod Starting

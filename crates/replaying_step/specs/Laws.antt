-- What the proofs of a step rest on.
pub mod Lists
pub mod Shifting
pub mod Taking
pub mod Inside
pub mod Settling

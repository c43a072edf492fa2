-- What the proofs of rings rest on, and what a step finds in them.
pub mod Waiting
pub mod Rings
pub mod Led
pub mod Words
pub mod Laying
pub mod Settle

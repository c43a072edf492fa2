-- Theorems that functions' proofs and crates above cite.
pub mod Promises

-- Theorems that functions' proofs and crates above cite.
pub mod Left
pub mod Standing
pub mod Seeking

-- Theorems that crates above cite.
pub mod Runs
pub mod Verdicts
pub mod Deciding
pub mod Witness

-- Theorems that crates above cite, and what they are made of.
pub mod Machines
pub mod Model
pub mod Sets
pub mod Fits
pub mod Whole

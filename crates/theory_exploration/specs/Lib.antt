-- Exploration of a deterministic labelled graph: definitions, and what they mean.
pub mod Mem
pub mod Size
pub mod Order
pub mod Explore
pub mod Search
pub mod Marks
pub mod Growing
pub mod Cases
pub mod Laws

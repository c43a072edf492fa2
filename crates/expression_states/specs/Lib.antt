-- The states of a diagram, and what the code's list of them shows. Laws stand under Laws.
pub mod States
pub mod Grows
pub mod Laws

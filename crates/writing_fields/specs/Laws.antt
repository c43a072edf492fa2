-- The laws of putting fields into a buffer, each proved once.
pub mod Texts
pub mod Numbers
pub mod Loops
pub mod Writers
pub mod Kinds
pub mod Waiting
pub mod Arcs

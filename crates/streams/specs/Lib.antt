-- Lent memory that is made from a byte of standard input.
pub mod Lent
pub mod Laws

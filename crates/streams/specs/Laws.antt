-- Laws of lent memory.
pub mod Lent

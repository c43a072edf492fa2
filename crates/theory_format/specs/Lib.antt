-- The bytes that tables spell, and the tables that some file is read into. Laws of both stand under Laws.
pub mod Spelled
pub mod Readable
pub mod Laws

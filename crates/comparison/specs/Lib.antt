-- Sameness of tables, entry by entry.
pub mod Same
pub mod Laws

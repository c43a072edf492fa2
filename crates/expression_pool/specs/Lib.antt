-- The tables of a pool, entry by entry. Laws stand under Laws.
pub mod Filled
pub mod Fills
pub mod Laws

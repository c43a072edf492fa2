-- What contracts of parsing say; laws stand under Laws.
pub mod Steps
pub mod Laws

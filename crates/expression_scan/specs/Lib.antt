-- What contracts of scanning say; laws stand under Laws.
pub mod Runs
pub mod Said
pub mod Laws

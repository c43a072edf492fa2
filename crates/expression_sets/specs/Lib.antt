-- What the loops over sets of occurrences do; laws stand under Laws.
pub mod Marks
pub mod Laws

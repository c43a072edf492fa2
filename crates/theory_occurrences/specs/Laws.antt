-- What follows from the definitions. A crate above asks for Arrives first: a word leads to the set of the occurrences that it can end
-- on. Sets and Tables say what the operations on numbers and tables have, Letters what the labels are, and Places what may begin, end
-- and follow in words of occurrences; the other files are on the way from those to Arrives.
pub mod Sets
pub mod Tables
pub mod Marked
pub mod Rest
pub mod Follows
pub mod Places
pub mod Letters
pub mod Language
pub mod EndsOn
pub mod Arrives

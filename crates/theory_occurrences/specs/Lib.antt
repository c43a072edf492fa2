-- Sets of occurrences, what may begin, end and follow in a tree, and the sets that words end on. Laws stand under Laws.
pub mod Sets
pub mod Positions
pub mod EndsOn
pub mod Laws

-- The walk over lent tables: pairs as numbers, what the tables show, the search and its answer, the contents shown, and the judgement. The laws are
-- proved from these.
pub mod Answers
pub mod Shown
pub mod Judged
pub mod Laws

-- Laws of pairs, of where they lead, and of the tables that they are marked in.
pub mod Pairs
pub mod Marks
pub mod Moves
pub mod Clearing

-- The tables of a file as flat bytes: the layout, the tables that such bytes stand for, and what writing from them promises.
pub mod Flat
pub mod Taken
pub mod Written
pub mod Laws

-- Laws of one item: what it is, and what its walk finds.
pub mod Begin
pub mod Cut
pub mod Judge
pub mod Item
pub mod Walked
pub mod Far

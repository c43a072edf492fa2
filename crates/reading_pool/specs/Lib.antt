pub mod Pool
pub mod Lent
pub mod Laws

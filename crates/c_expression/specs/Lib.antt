-- What C is told of an expression.
pub mod Drawn
pub mod Laws

-- What comes of a text, and what that means. Laws stand under Laws.
pub mod Expression
pub mod Means
pub mod Said
pub mod Cases
pub mod Laws

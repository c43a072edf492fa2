-- Expressions: trees and their language, the grammar, the parse, the numbers in a text and the limits on them. Laws of all stand under Laws.
pub mod Tree
pub mod Grammar
pub mod Parse
pub mod Offends
pub mod Cases
pub mod Laws

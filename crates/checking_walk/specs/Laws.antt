-- The laws, each file over those before it. What a crate above asks for first: `judged_item`, `item_fits` (Items), `judged_is` (Judged), `lent`, `word_within`, `word_empty`, `over_session` (Valid).
pub mod Letters
pub mod Sweeps
pub mod Exploring
pub mod Over
pub mod Valid
pub mod Lowest
pub mod Edges
pub mod Shown
pub mod Judged
pub mod Items

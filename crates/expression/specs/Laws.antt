-- What follows from the definitions, each file over those before it. What is asked for first: `just_the_language`, `a_tree` (Language), `numbered_so`
-- (Numbering), `valid_so` (Valid), and of the refusals `too_long_lem`, `outside_means`, `leftmost_means` (Refusals), `too_many_states_lem` and `drawn_else` (Count).
pub mod Lists
pub mod Standing
pub mod Comes
pub mod Refusals
pub mod Language
pub mod Numbering
pub mod Valid
pub mod Count
pub mod Drawing

-- The laws, each file over those before it. What a crate above asks for first: `parsed_spelled` (Sound), `spelled_parsed`, `one_tree` (Complete),
-- `outside_is`, `stuck_most` (Outside), `limits_kept`, `limits_passed` (Limits), `letters_are`, `decimal_value`, `size_letters`, `kept_bounds` (Numbers).
pub mod Signs
pub mod Running
pub mod Sound
pub mod Complete
pub mod Outside
pub mod Before
pub mod Places
pub mod Limits
pub mod Numbers

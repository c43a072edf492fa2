-- The laws, each file over those before it. What a crate above asks for first: `two_runs`, `verdict_is`, `closed_is` (proofs/Verdicts), `accepted_in_order` (Ordered),
-- `file_bound` (Bounds), `search_is` (Searches), `shown_bound` (Lengths), `decide_append` (Deciding).
pub mod Basics
pub mod Controls
pub mod Decimals
pub mod Queues
pub mod Items
pub mod Steps
pub mod Walks
pub mod Far
pub mod Ordered
pub mod Parts
pub mod After
pub mod Replies
pub mod Runs
pub mod Shown
pub mod Spaces
pub mod Bounds
pub mod PartedWords
pub mod Judging
pub mod Faithful
pub mod Verdicts
pub mod Deciding
pub mod Searches
pub mod Lengths
pub mod Witness

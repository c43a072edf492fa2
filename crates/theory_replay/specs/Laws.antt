-- The laws, each file over those before it. What a crate above asks for first: what decides a turn, `replay_stops`, `replay_goes` and `replay_without_bad` (Turns),
-- `replay_rules` and `rules_replay` (Rules), `replayed_queues` (Queues), `replay_means`, `means_replay`, the laws named exactly, and `never_outside`
-- (Meaning).
pub mod Numbers
pub mod Turns
pub mod Rules
pub mod Ways
pub mod Queues
pub mod Meaning

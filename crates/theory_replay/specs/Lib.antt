-- Replaying a trace: how it goes, and what its end means. What is to be believed stands in the first two files; the laws are proved from them.
pub mod Rules
pub mod Meaning
pub mod Replay
pub mod Examples
pub mod Laws

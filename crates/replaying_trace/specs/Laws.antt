-- What the proofs of a replay rest on, and what is proved of its replies.
pub mod Tables
pub mod Loop
pub mod Begin
pub mod Turn
pub mod Closed
pub mod Meaning

-- What C is told of each reply.
pub mod Told
pub mod Replays
pub mod Laws

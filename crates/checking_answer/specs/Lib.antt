-- What answering a file promises.
pub mod Answer
pub mod Laws

pub mod Judges
pub mod Promises
pub mod Laws

-- Laws of items one after the other.
pub mod Sequence
pub mod Links
pub mod Turns
pub mod Entries
pub mod Cursors

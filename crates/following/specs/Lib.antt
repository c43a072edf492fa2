pub mod Follow
pub mod Standing
pub mod Rows
pub mod Part
pub mod After
pub mod Laws

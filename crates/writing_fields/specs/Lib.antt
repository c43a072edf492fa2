pub mod Parts
pub mod Writer
pub mod Laws

pub mod Parts
pub mod After
pub mod Configurations
pub mod Inside
pub mod Taking
pub mod Laws

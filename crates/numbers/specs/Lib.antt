pub mod Limits
pub mod Refusals
pub mod Part
pub mod Said
pub mod Number
pub mod Put
pub mod Laws

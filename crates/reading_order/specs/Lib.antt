pub mod Order
pub mod Nodes
pub mod Search
pub mod Found
pub mod Finds
pub mod Laws

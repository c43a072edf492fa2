pub mod Write
pub mod Laws

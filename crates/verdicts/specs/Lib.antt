pub mod Said
pub mod Laws

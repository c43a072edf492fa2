pub mod Ring
pub mod Laid
pub mod Laying
pub mod Lent
pub mod Led
pub mod Laws

pub mod Cut
pub mod Judging
pub mod Begin
pub mod Far
pub mod Promises
pub mod Laws

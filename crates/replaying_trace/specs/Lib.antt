pub mod Tables
pub mod Reply
pub mod Run
pub mod Laws

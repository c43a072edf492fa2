pub mod Machines
pub mod Words
pub mod Queues
pub mod Transitions
pub mod Model
pub mod Lent
pub mod Laws

pub mod Pairs
pub mod Marks
pub mod Kept
pub mod Over
pub mod Leads
pub mod Laws

-- What is to be believed stands in Left and Next; the laws are proved from them.
pub mod Left
pub mod Next
pub mod Laws

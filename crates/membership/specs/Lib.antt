-- Membership: what is to be believed stands in Member, Said, Meaning and Refused; the laws are proved from them.
pub mod Member
pub mod Said
pub mod Meaning
pub mod Refused
pub mod Examples
pub mod Laws

-- What a file means: the session of its tables, the reply to every byte string with all that is claimed of it, and the fourteen cases.
-- What is to be believed stands in these files, in this order; the laws are proved from them.
pub mod Tables
pub mod Reply
pub mod Claims
pub mod Checking
pub mod Cases
pub mod Laws

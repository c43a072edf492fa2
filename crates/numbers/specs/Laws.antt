-- The laws that every reader and writer of numbers shares.
pub mod Parts
pub mod Lists
pub mod Ranges
pub mod Rounds
pub mod Written
pub mod Asks
pub mod Places
pub mod Put

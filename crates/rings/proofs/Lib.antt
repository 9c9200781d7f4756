pub mod Written
pub mod Ways
pub mod Listing
pub mod Freeing

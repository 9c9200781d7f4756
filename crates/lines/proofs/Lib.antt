pub mod Obeying
pub mod Gathering
pub mod Follows

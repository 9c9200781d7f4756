-- What removal says of a head lent in place.
pub mod Taken

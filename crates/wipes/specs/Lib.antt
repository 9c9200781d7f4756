-- What wiping a table rests on.
pub mod Wiped

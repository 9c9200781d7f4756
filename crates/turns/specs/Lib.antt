-- What the check of one slot decides.
pub mod Turns

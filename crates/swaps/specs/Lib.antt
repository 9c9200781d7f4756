-- What the swaps of headers ask and leave.
pub mod Swaps

-- The scan, each turn of it, and what it makes of the whole.
pub mod Scans
pub mod Whole
pub mod Turns

pub mod Scan
pub mod Frames
pub mod Runs
pub mod Loops
pub mod Whole

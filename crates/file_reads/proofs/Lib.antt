pub mod Standing
pub mod Filling
pub mod Reading
pub mod Call

pub mod Host
pub mod InPlace
pub mod Two
pub mod Sequence

pub mod Only
pub mod Sequences
pub mod HostRows
pub mod Played

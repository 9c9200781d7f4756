-- What a seal writes.
pub mod Answered

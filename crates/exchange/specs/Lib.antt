-- What the exchange's steps ask and answer.
pub mod Asked
pub mod Answered

-- What the calls that go round one ring ask and answer.
pub mod Asked
pub mod Answered

-- What the replay's tests of an answer decide.
pub mod Sample

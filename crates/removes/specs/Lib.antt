-- What removal's steps ask and answer.
pub mod Removal

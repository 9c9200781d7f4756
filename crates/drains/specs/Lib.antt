-- What the functions over whole runs ask and answer.
pub mod Asked
pub mod Answered

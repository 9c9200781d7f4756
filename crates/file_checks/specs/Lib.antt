-- What the first pass answers.
pub mod Said

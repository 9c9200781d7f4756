-- What new run and insert ask of their steps.
pub mod Asked

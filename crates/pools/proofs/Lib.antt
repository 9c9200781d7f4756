-- Questions answered by a test; zeros.
pub mod Ask
pub mod Empty

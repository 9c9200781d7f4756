-- The loops' invariants: how each begins, goes on and ends.
pub mod Ring

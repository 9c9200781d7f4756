-- The invariants of passes 1 and 3; and the shared side as a whole.
pub mod Passes
pub mod Shared

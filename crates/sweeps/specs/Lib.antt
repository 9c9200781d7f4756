-- Drain all, step by step.
pub mod Sweep

-- The scan's invariant: how it begins, goes on and ends; and the element side as a whole.
pub mod Scan
pub mod Whole

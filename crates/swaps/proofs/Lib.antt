-- The swaps' invariant over any columns, and the loops that keep it.
pub mod Swaps
pub mod Exchanges

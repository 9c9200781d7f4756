-- What the check of one table decides.
pub mod Pools

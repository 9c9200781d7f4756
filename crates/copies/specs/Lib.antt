-- What the copies of compression ask and leave.
pub mod Parts

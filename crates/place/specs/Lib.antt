-- What the shared side of compression asks and leaves.
pub mod Headers

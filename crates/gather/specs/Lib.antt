-- What the element side of compression asks and leaves.
pub mod Elements

-- What the writer's scan asks and finds, and what it writes.
pub mod Writes

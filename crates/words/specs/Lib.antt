-- What the contracts of reading a line cite, beside Script of the rules.
pub mod Words
pub mod Lines

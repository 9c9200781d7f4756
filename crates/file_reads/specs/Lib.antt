-- What the reader's second pass rests on.
pub mod Fills

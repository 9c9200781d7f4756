pub mod Decimals
pub mod Pieces
pub mod Reading
pub mod Letters

pub mod Told
pub mod Thirteen
pub mod NumberRows

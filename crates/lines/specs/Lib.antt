-- What the contracts of the script program's lines cite, beside Script of the rules.
pub mod Obeys
pub mod Stream

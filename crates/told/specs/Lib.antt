-- What the contracts of printing an answer cite, beside Script of the rules.
pub mod Put
pub mod Texts
pub mod Told

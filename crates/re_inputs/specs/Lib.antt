pub mod InputWords
pub mod NamedInputs
pub mod NamedProducts
pub mod Pairings

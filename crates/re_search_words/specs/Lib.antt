pub mod Lines
pub mod MayGive
pub mod RelaxedWords
pub mod Words

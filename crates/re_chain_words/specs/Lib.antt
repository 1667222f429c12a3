pub mod Answers
pub mod ChainWords
pub mod LabelWords
pub mod Shapings

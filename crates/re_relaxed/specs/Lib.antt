pub mod Answers
pub mod Library

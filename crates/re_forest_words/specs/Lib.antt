pub mod Answers
pub mod GreedyAnswers
pub mod GreedyTexts
pub mod Showings
pub mod Words

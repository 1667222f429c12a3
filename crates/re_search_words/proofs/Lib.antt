mod Behind
mod RelaxedSaying
mod RelaxedWordCounts
pub mod Saying
mod ShorterTexts
mod WordCounts

mod Counts
mod Fixed
mod Forests
mod GivenKnown
mod GivenTogether
mod Known
mod Local
mod LostLabels
mod Pieces
pub mod Saying
mod Together
mod Unclosed

pub mod CycleAnswers
pub mod ShortestAnswers

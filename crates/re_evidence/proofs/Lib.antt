pub mod FewColours
pub mod Forests
mod Graphs
pub mod Local
mod OneCondition
pub mod Together
mod VerdictRounds

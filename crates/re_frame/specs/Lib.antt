pub mod Check
pub mod Outcomes
pub mod Runs
pub mod SearchLines
pub mod TextFaults
pub mod Answers

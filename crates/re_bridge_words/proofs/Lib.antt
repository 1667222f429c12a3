mod NoBridge
mod Outcomes
pub mod UpperSteps
mod GivenReductions

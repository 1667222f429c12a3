pub mod BehindSteps
pub mod Means
mod Saying

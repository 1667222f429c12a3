pub mod Outputs
pub mod Standing
pub mod Views
mod GivenOutputs
mod LabelledViews

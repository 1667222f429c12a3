pub mod BadChoice
pub mod Explaining
pub mod Finding
pub mod Laws
pub mod Standing
pub mod WitnessTexts
pub mod Witnesses

pub mod ChainTexts
pub mod Chains
pub mod GivenTexts
pub mod HeldBounds
pub mod OverChains
pub mod TwoTexts

pub mod BoundChains
pub mod GivenMeaning
pub mod OnlyUnavoidable

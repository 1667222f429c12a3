pub mod GivenBounds
pub mod OnlyUnavoidable

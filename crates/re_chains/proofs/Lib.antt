mod CertificateLines
pub mod ChainBounds
mod CutLines
pub mod FirstLines
mod GivenReading
pub mod GivenSays
mod ProblemLines
mod Splits
mod Wholes
pub mod WordsGiven

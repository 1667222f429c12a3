pub mod NamedProofs
pub mod PairingLemmas
pub mod ProductNames
pub mod ProductProofs
mod WordCounts

pub mod MergesGiven
pub mod NamesGiven
pub mod Places
pub mod WordsSay

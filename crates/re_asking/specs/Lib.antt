pub mod Beside
pub mod BesideWords
pub mod NearWords

pub mod Commands
pub mod Evidence
pub mod EvidenceLevels
pub mod EvidenceWords
pub mod Expected
pub mod Telling
pub mod TextWords
pub mod Worth

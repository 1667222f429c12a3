pub mod FirstEntries
pub mod ConfigBeginnings
pub mod LabelsBelow
pub mod Raising
pub mod WalkLemmas

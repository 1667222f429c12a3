mod Joining
mod Pieces
mod Refusals
pub mod Said
pub mod TextsWorth
mod Undone
mod WorthIn
mod Evidences
mod PartProblems

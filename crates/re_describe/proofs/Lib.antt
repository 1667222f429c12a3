pub mod Covering
pub mod Grouping
pub mod Growing
pub mod Thinning
mod Drawn
mod PartsSaid
mod Reported
mod SameLists
mod SameParts
mod Saying
mod Solved

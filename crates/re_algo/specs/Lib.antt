pub mod Choosing
pub mod Constructions
pub mod Counting
pub mod Laws
pub mod PlaceLaws
pub mod SeenRows
pub mod Tables
pub mod Verdicts

pub mod ColourNames
pub mod Listing
pub mod Sizes
pub mod Whole

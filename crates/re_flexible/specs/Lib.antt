pub mod Families
pub mod Lengths
pub mod Relations

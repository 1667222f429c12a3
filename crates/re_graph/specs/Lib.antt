pub mod Building
pub mod Examples
pub mod Solving
pub mod GraphTexts
pub mod Judging

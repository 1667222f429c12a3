pub mod JudgedLines
pub mod PrintedLines
pub mod ReadBack
pub mod ReadTexts

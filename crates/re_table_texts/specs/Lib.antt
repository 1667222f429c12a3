pub mod PrintedTables
pub mod Reading
pub mod SectionLines
pub mod TableTexts

pub mod Seen
pub mod UpperTables

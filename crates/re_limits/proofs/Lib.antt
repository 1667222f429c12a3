pub mod Passed
mod Texts

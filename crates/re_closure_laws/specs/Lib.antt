pub mod Lines
pub mod Closures
pub mod Laws

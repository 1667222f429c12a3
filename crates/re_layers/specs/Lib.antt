pub mod Full
pub mod Laws
pub mod Layers
pub mod Networks
pub mod Towers

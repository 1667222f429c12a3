pub mod Bridged
pub mod Bridges
pub mod Laws
pub mod Reductions

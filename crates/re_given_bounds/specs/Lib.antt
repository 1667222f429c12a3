pub mod ClassBounds
pub mod EdgeBounds
pub mod EdgeClasses
pub mod FewColoursBounds
pub mod Laws
pub mod LocalBounds
pub mod RandomBounds
pub mod Telling

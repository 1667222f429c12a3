pub mod BothColourings
pub mod ClassMeaning
pub mod EdgeBounds
pub mod EdgeClasses
pub mod EdgeColours
pub mod FewColoursMeaning
pub mod FewEdgeColours
pub mod IdleHop
mod LabelPlaces
pub mod LocalMeaning
pub mod Products
pub mod RandomMeaning
pub mod Sides
mod WholeMeaning

pub mod Found
pub mod Levels
pub mod Opening
pub mod Placed
pub mod Written

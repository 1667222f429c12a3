pub mod Claims
pub mod Classes
pub mod Colours
pub mod GraphRounds
pub mod Lines
pub mod OnForests

pub mod Around
pub mod Closed
pub mod Coloured
pub mod Consequences
pub mod Crossed
pub mod CrossedWalks
pub mod Deep
pub mod FreeColours
pub mod Gap
pub mod Joined
pub mod Members
pub mod Realised
pub mod Renamed
pub mod Rerooted
pub mod SpeedUp
pub mod Trees
mod OnViews

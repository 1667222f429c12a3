mod Apart
mod Balls
pub mod Bits
mod Choosing
pub mod ColouredHops
pub mod ColouredLocal
pub mod Complete
pub mod CompleteLimit
pub mod ComposedLocal
pub mod Counting
pub mod DifferentLabels
mod Extended
pub mod FewColours
pub mod FewerColours
pub mod FewerRounds
pub mod IdentifierInputs
pub mod LocalBounds
pub mod LocalGiven
mod Matched
pub mod MoreLocal
pub mod NoRoom
pub mod Numbers
pub mod OneHop
mod Pruned
pub mod Separated
mod Sets
pub mod Sinkless
pub mod Sparse
mod Stages
pub mod Supports
pub mod UnavoidableIdentifiers
pub mod VirtualGiven
pub mod VirtualLabels
pub mod VirtualUnavoided
pub mod Walks
pub mod WholeBound

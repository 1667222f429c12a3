pub mod Answers
pub mod BridgeWords
pub mod Laws
pub mod ReduceWords
pub mod UpperBridged

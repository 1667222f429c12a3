pub mod FactLaws
pub mod FaultLaws
mod GreedyLaws
pub mod JudgedTexts
mod LineItems
mod PartLaws
mod SameTexts

pub mod Examples
pub mod Findings
pub mod Greedy
pub mod Laws
pub mod Partials

pub mod Graphs
pub mod Laws
pub mod Unfolded
pub mod GivenGraphs

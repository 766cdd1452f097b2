pub mod Pairs
pub mod Positions
pub mod Segments
pub mod Counted
pub mod Layers
pub mod Nodes
pub mod Outcomes
pub mod Trees

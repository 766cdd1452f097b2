pub mod Arrays
pub mod Contains
pub mod References
pub mod Nodes
pub mod Outcomes
pub mod Wanted

pub mod Found
pub mod Outcomes
pub mod Sinks

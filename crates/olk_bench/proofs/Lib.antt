pub mod Counted
pub mod Findings
pub mod Patterns
pub mod Quoted

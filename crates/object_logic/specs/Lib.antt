pub mod Nodes
pub mod Validators
pub mod OneVerdict

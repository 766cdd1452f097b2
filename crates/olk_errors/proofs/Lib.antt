pub mod Appending
pub mod Sinks
pub mod Own
pub mod Kept
mod Contexts
mod Missing
mod Members
mod OneOf
mod Due
mod If
mod Patterns
mod Fused
mod Telling
mod Names
pub mod Loops
mod Additional
mod Unexpected
mod AdditionalMembers
mod AdditionalHeld

pub mod Lists
pub mod Questions
pub mod Faults
pub mod Members_met
pub mod Due
mod Places
pub mod Lookups
mod Heads
mod Members_named
pub mod Merge
pub mod Walked
pub mod Crowded
pub mod Maps
pub mod Patterns
pub mod Literals
mod Bits
pub mod Tables
pub mod OneOf
pub mod Mapped
pub mod Layers
pub mod AdditionalMaps
pub mod Answering
pub mod AskedSchemas
pub mod Restricted
pub mod RestrictedAsks
pub mod RestrictedNames
pub mod RestrictionMeans
pub mod Formed
mod First_rows

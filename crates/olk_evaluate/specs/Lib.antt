pub mod Shows
pub mod Wanted
pub mod Members
pub mod Patterns
pub mod Additional

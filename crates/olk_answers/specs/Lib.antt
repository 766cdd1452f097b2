pub mod Lines
pub mod Steps
pub mod Evaluated
pub mod Refusals
pub mod Texts
pub mod Told

pub mod Layers
pub mod NodeVerdicts
pub mod NodeReports
pub mod Going
pub mod Appended
mod OneVerdict

pub mod Kits
pub mod Reading
pub mod Own
pub mod Targets
pub mod Building
pub mod References
pub mod Documents

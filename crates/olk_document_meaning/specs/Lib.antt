pub mod Places
pub mod Layers
pub mod Rows

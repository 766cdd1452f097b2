pub mod Comparisons
pub mod Divisions
pub mod Halves
pub mod Powers
pub mod Readings
pub mod Remainders

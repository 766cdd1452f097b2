mod LineLemmas
mod ProgressLemmas
pub mod Fractions
pub mod Plain
pub mod ToldLemmas

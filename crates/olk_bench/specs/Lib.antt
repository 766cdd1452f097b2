pub mod Leaves
pub mod Numbers
pub mod Regexes

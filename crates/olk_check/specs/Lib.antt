pub mod Asks
pub mod Accepting
pub mod Together
pub mod Unpatterned

pub mod Bodies
pub mod CountLemmas
pub mod Ends
pub mod Forms
pub mod Heads
pub mod Plain
pub mod Scan
pub mod Texts

pub mod Drops
pub mod Meaning
pub mod Sent
pub mod Heard
pub mod Pairs

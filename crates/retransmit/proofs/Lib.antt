pub mod Timeouts
pub mod Samples
pub mod Soonest

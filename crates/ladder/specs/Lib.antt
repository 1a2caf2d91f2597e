pub mod Numbers
pub mod Text
pub mod Passages
pub mod Arrivals
pub mod Rungs
pub mod Ladder

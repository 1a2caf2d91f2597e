pub mod Sum
pub mod Lanes

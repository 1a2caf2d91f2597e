mod Nobody
pub mod Opening
mod Seconds
mod Wanting

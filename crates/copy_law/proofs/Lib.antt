pub mod Vectors
pub mod Counts
pub mod Standing
pub mod Starting
pub mod Calling
pub mod Carrying
pub mod Lawful

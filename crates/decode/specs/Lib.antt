pub mod Pairs
pub mod Words
pub mod Lines
pub mod Layers

pub mod Alike
pub mod Tallied

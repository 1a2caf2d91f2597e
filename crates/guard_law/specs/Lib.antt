pub mod Wanting
pub mod Waited

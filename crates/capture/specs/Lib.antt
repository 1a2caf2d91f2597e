pub mod Capture
pub mod Reading
pub mod Cutting

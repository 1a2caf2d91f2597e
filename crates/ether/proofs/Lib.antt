pub mod Framing
pub mod OneFrame
pub mod Answering
pub mod Reading
pub mod Words
pub mod Fields

pub mod Numbers
pub mod Halves
pub mod Stream
pub mod Windows
pub mod Blocks
pub mod Reports
pub mod Heard
pub mod Received

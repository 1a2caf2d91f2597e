pub mod Wire
pub mod Blocks
pub mod Options
pub mod Segment
pub mod Sent
pub mod Reading
pub mod Telling

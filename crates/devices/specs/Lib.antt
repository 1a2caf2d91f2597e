pub mod Streams
pub mod Calls
pub mod Passages
pub mod Told
pub mod Time

pub mod Timeout
pub mod Events
pub mod Deadlines
pub mod Inside

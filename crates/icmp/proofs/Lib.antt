pub mod Form
pub mod Sending
pub mod Quoting
pub mod Answering

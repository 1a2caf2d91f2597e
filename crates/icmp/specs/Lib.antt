pub mod Message
pub mod Reading
pub mod Errors
pub mod Sent
pub mod Quotes
pub mod MayAnswer

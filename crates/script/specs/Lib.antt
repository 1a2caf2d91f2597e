pub mod Words
pub mod Keywords
pub mod Actions
pub mod Script
pub mod Info
pub mod Text
pub mod Events

pub mod Routes
pub mod Ends

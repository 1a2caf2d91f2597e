pub mod Tables
pub mod Ends

pub mod Retained
mod Turns

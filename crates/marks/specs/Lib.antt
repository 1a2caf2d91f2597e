pub mod Bits
pub mod First
pub mod Marked
pub mod Tree
pub mod Walk

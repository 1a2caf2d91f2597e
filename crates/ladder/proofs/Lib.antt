pub mod Syns
pub mod Told
pub mod Widths

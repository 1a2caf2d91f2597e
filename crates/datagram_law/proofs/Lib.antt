pub mod InTurn
pub mod Parting
pub mod Gathering
pub mod Completing
pub mod Reading
pub mod Keeping
pub mod TooMany

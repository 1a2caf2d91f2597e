pub mod Words
pub mod Complements
pub mod Joining
pub mod Exchanging
pub mod Halves
pub mod Parts
pub mod Carries

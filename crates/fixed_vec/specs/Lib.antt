pub mod FixedVec
pub mod Lends

pub mod ChainsInTurn
pub mod Skipped
pub mod Numbers
pub mod LastLooked
pub mod Walks

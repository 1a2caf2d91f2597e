pub mod Choices
pub mod Keeping
pub mod Gathered
pub mod Reports
pub mod Runs
pub mod HeardBare
pub mod LargestWindow

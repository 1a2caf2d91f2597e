pub mod LineLemmas
pub mod StepLemmas

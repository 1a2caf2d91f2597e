pub mod ActionLemmas
pub mod InfoLemmas
pub mod ReadyLemmas
pub mod ScriptLemmas
pub mod WordLemmas

pub mod AskedLemmas
pub mod SendLemmas

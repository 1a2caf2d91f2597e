pub mod MemoryLemmas
pub mod TellLemmas
pub mod Moving

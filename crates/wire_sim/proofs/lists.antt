pub mod FoundAfterChange

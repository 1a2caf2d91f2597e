pub mod Pointer
pub mod Apart
pub mod Held
pub mod Left
pub mod Tables

pub mod Packet
pub mod Cache
pub mod Events
pub mod Reading
pub mod Waits

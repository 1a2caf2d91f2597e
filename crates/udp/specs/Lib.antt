pub mod Datagram
pub mod Sent
pub mod Reading
pub mod Fragments
pub mod Waiting
pub mod Stored

pub mod Addresses
pub mod Prefixes
pub mod Datagram
pub mod Sent
pub mod Sums
pub mod Reading

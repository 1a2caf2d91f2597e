pub mod Accepted
pub mod Carried
pub mod Pools
pub mod Sockets

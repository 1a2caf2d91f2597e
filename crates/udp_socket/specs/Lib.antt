pub mod SocketView
pub mod Asking
pub mod Emission
pub mod Waits
pub mod Events
pub mod Stored

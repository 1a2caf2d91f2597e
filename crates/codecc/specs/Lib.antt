pub mod Calls
pub mod Link
pub mod Resolution
pub mod Network
pub mod Control
pub mod User
pub mod Transport

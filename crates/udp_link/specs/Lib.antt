pub use Rattle.devices.specs.Streams
pub use Rattle.devices.specs.Passages
pub mod Steps
pub mod Fates
pub mod Datagrams
pub mod Machine

pub use Rattle.devices.specs.Streams
pub use Rattle.devices.specs.Passages
pub mod Faults
pub mod Moves
pub mod Feeding
pub mod Copying

pub use Rattle.devices.specs.Streams
pub mod Progress

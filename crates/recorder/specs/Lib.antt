pub use Rattle.devices.specs.Streams
pub use Rattle.devices.specs.Passages
pub use Rattle.devices.specs.Time
pub use Rattle.capture.specs.Capture
pub mod Captured
pub mod Going

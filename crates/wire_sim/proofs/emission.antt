pub mod EmittedOctets
pub mod EmittedFrame
pub mod SegmentsGoOut
pub mod NothingGoesOut

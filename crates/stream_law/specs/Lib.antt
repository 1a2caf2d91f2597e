pub mod Begins
pub mod Channel
pub mod ChannelSteps
pub mod ChannelViews
pub mod Pairing

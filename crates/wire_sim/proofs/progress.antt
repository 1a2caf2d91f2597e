pub mod EndsMeet
pub mod PoolsAreOthers
pub mod QuietHosts
pub mod ReadsTold
pub mod QuietWindow
pub mod QuietWindows
pub mod RoundsMove

pub mod RoundsAreRuns
pub mod FramesInTurn
pub mod ReadsInTurn
pub mod FramesInTime
pub mod RoundsAreExchanges
pub mod ReadersRead
pub mod RoundsHaveRoom

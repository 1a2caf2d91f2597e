pub mod OpeningIsFound
pub mod OctetsAreCovered
pub mod HeldIsOpened
pub mod OpeningsAreBegun
pub mod HoldingsAreNoted

pub mod FramesCarry
pub mod FramesGoOut
pub mod FramesArrive
pub mod TableSends

pub mod Passing
pub mod Moving
pub mod Feeding
pub mod Turning
pub mod Failing

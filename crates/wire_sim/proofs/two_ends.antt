pub mod Opens
pub mod Closes
pub mod UnderIds
pub mod Travels
pub mod Meets
pub mod Calls
pub mod Joined

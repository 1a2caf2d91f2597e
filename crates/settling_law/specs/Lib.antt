pub mod Settling
pub mod Hosts

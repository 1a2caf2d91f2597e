pub mod Alone
pub mod Exchange
pub mod Progress

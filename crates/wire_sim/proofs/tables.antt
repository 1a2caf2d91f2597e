pub mod TableById
pub mod EntryChanges
pub mod EntryIsMade
pub mod PairOfPorts
pub mod CallsOnTable
pub mod SegmentArrived
pub mod UnseenRoles
pub mod DatagramArrived

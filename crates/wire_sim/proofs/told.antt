pub mod TraceAndOneMore
pub mod AccountAndOneMore

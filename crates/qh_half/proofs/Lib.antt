pub mod RecvIngested
pub mod RecvReads
pub mod SendChunks
pub mod SendMarks

pub mod Queue
pub mod Socket

pub mod Control
pub mod Datagrams
pub mod Items
pub mod Queue

pub mod Connections
pub mod Ids

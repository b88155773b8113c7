pub mod ConnectionId
pub mod ConnectionIdInverse
pub mod Io
pub mod Varint
pub mod Standard
pub mod TransportFault

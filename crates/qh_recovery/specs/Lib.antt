pub mod Accepted
pub mod PacketNumber
pub mod PendingAcks
pub mod Rtt
pub mod SentPackets
pub mod Window

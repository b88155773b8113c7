pub mod AckBlocks
pub mod LastRanges
pub mod PacketNumbers
pub mod SentFrames
pub mod SentLists
pub mod Window

pub mod FramesTaken
pub mod PacketFrames
pub mod PacketMade
pub mod SpaceKept
pub mod StreamsStep
pub mod StreamsStepped

pub mod Recv
pub mod Send

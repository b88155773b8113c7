pub mod Client
pub mod ClientSteps
pub mod Going
pub mod Handling
pub mod Server
pub mod Steps
pub mod Streams

pub mod InitialForms
pub mod LongHeaders
pub mod Opened
pub mod Packets
pub mod Sessions
pub mod Surveys
pub mod Versions

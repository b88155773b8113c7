pub mod Command
pub mod Config
pub mod Line
pub mod Outline
pub mod Report
pub mod Script
pub mod Tokens

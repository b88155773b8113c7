pub mod Assembler
pub mod Ranges
pub mod SendBuffer
pub mod SendState

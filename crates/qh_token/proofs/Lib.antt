pub mod Addresses
pub mod Forms
pub mod Numbers
pub mod Reading
pub mod Resets
pub mod Writing

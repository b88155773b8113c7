pub mod Reading
pub mod Room
pub mod Sections
pub mod Written

pub mod Chain
pub mod Grown
pub mod Lines
pub mod Places
pub mod SectionAt
pub mod SectionFault
pub mod SectionReading

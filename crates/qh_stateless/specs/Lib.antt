pub mod Close
pub mod Header
pub mod Negotiation
pub mod Reset
pub mod View
pub mod Words

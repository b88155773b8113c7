pub mod Tails
pub mod Uris

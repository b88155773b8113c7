pub mod Manual
pub mod Receiving
pub mod Sets

pub mod Lengths
pub mod Queues
pub mod Sequences

pub mod Counts
pub mod Limit
pub mod Pending
pub mod RecvHalves
pub mod Seats
pub mod SendHalves
pub mod Winners

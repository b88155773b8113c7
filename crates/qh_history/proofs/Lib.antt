pub mod Arrivals
pub mod Carried
pub mod Made
pub mod Runs
pub mod SameEnd
pub mod Speaking
pub mod WaitingKept
pub mod WithinLimits

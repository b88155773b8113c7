pub mod CidQueue
pub mod CidState

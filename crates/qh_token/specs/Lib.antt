pub mod Parts
pub mod Reset
pub mod Token

pub mod Crypto
pub mod Greetings
pub mod Numbers
pub mod Parts
pub mod Put
pub mod Refusals

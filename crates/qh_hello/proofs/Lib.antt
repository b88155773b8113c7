pub mod Again
pub mod CryptoPieces
pub mod Fronts
pub mod Keeping
pub mod Puts
pub mod Readings
pub mod Sizes
pub mod Walks

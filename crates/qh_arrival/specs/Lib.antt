pub mod Accord
pub mod Asked
pub mod Heard
pub mod Said
pub mod Taking

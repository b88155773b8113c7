pub mod Brings
pub mod Connections
pub mod Items
pub mod Kept
pub mod Laws

pub mod Counted
pub mod CountingIds
pub mod Fresh
pub mod Given

pub mod ConnectionMeta
pub mod Index
pub mod Routes

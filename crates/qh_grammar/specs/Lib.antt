pub mod Authority
pub mod Uri

pub mod Link
pub mod ScriptLink
pub mod Ways

pub mod Requested
pub mod kept

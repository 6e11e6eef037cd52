pub mod Places
pub mod Listed
pub mod Pooled
pub mod Found
pub mod Keeping

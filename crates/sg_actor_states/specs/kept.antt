-- How states are kept.
pub mod Places
pub mod Waiting
pub mod Standing
pub mod Fields

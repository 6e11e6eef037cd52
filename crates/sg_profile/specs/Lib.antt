pub mod Profiles
pub mod Ahead
pub mod Laws
pub mod kept

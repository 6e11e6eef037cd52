pub mod Posts
pub mod kept
pub mod Owners

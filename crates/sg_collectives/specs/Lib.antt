pub mod Actions
pub mod Expansion
pub mod Laws
pub mod Members
pub mod Tree
pub mod Messages
pub mod Together

pub mod Changes
pub mod Demand
pub mod Settling
pub mod Kept
pub mod Joined
pub mod Allowed

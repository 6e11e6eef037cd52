pub mod Counts
pub mod Losses
pub mod Slots
pub mod Leaving

-- How rows are kept.
pub mod Finds
pub mod Slots

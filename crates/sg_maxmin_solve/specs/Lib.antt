pub mod Alone
pub mod Component
pub mod Counts
pub mod Dates
pub mod Filling
pub mod Holds
pub mod Parts

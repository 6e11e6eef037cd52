pub mod Slots
pub mod Arrivals
pub mod Objects

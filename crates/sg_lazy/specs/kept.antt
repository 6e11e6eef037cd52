-- How a `Lazy` keeps its flows, and how it updates their rates.
pub mod Keeping
pub mod Held
pub mod Changes
pub mod Counts
pub mod Leveled
pub mod Solving

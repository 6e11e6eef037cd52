-- How lines are kept.
pub mod Room

-- How a run is made, between the calls that its definition doesn't speak of.
pub mod CallList
pub mod Invariant
pub mod Listed
pub mod Moments
pub mod SeatRules
pub mod Stretches
pub mod Turns
pub mod Writing

-- How `Activities` keeps what is running.
pub mod Stamps
pub mod Rows
pub mod State
pub mod Sound
pub mod Index
pub mod Hits
pub mod Metered
pub mod Whole
pub mod Asks
pub mod Bounds
pub mod Renewal
pub mod Ends
pub mod Turns
pub mod Grows
